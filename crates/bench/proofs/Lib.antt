pub mod Parts
pub mod Writers
