pub mod Input
pub mod Setup
pub mod Run
