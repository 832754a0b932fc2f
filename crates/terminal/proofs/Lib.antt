pub mod KeyLaws
pub mod ReplyLaws
pub mod SizeLaws
pub mod WorkLaws
