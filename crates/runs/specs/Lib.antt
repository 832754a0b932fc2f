pub mod Calls
pub mod Delivery
pub mod Laws
pub mod Run
pub mod Set
