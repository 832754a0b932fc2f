pub mod Bits
pub mod Laws
pub mod Layout
pub mod Memory
pub mod Picture
pub mod Run
