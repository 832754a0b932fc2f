pub mod Emulation
pub mod Parameters
pub mod Machine
pub mod Restart
