pub mod Heads
pub mod OneRun
