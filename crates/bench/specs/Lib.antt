pub mod Work
pub mod Writer
pub mod Counting
pub mod Sizes
