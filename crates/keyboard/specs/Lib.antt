pub mod Key
pub mod Stroke
pub mod Codes
