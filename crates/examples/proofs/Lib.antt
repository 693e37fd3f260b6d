pub mod Stops
pub mod Joined
