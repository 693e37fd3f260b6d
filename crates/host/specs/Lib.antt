pub mod Host
pub mod ListHost
pub mod PollHost
