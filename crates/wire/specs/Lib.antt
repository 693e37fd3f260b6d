pub mod Pulls
pub mod Event
pub mod Latch
pub mod Wire
pub mod ByteProgress
pub mod Decoder
