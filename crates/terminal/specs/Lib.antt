pub mod Install
pub mod Reply
pub mod Session
pub mod Work
