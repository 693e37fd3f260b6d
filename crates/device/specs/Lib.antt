pub mod Limits
pub mod Device
pub mod RegisterFile
pub mod EventQueue
pub mod Selection
pub mod Busy
pub mod Slow
