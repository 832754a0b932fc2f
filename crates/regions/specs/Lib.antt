pub mod Area
pub mod Pen
pub mod Regions
pub mod Size
pub mod Slot
pub mod Window
