pub mod Nth
pub mod Ring
pub mod Waiting
