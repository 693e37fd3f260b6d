-- The bus of hosts and devices is such a machine beside its turn book, so the law holds there.
pub mod HoldsAsOne
pub mod TickAsMachine
pub mod TransfersAsGame
pub mod HostsAsOne
pub mod LeastStringLeads
pub mod BookAsMachine
pub mod MonitorAsMachine
pub mod CallsKeep
pub mod UseKeepsInvariant
pub mod RunIsItsTicks
pub mod CountsOfRun
pub mod LawOfUse
pub mod EveryUseLawful
