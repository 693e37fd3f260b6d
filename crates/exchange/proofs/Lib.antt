pub mod Ticks
pub mod Counting
