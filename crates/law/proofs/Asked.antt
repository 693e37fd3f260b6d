-- What the devices are asked: a bus of devices that note their steps goes beside the bus.
pub mod DeviceMaps
pub mod NotesAreAsks
pub mod NotingBusAlongside
pub mod UnmarkedAsAlone
pub mod PointsOfUse
pub mod SomebodyInAfterA
pub mod NotesOfLeg
pub mod RecordAfterA
pub mod ReportedHandedOver
pub mod ToldTookItsSteps
pub mod NothingAskedAtRest
pub mod EveryAskedHolds
