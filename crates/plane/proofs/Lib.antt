pub mod BitLaws
pub mod ByteLaws
pub mod CopyLaws
pub mod CountLaws
pub mod MaskLaws
pub mod MemoryLaws
pub mod RoomLaws
pub mod RunLaws
