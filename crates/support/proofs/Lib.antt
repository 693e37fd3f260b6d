pub mod Kept
pub mod Made
pub mod OneText
pub mod Progress
pub mod SomeRun
pub mod Unheld
pub mod Writing
