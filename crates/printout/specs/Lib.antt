pub mod Ink
pub mod Listing
