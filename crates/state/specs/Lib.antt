pub mod Action
pub mod Event
pub mod Reading
pub mod Reply
pub mod Setup
pub mod Size
pub mod Step
pub mod Terminal
