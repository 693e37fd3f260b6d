pub mod Setup
pub mod Run
