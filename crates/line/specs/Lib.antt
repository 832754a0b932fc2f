pub mod ByteWire
pub mod Content
pub mod PacketWire
pub mod Transfer
pub mod Wire
