pub mod Sent
pub mod Filled
pub mod PairBus
pub mod ArmAll
pub mod Output
pub mod PrintedRun
