-- A transfer played alone, bit by bit, is the transfer carried alone, byte by byte.
pub mod SealedIsLegal
pub mod BitsOfByte
pub mod StepsOfBanks
pub mod PortsAsSide
pub mod CursorByParts
pub mod SlotsRunOut
pub mod SlotsOfLevels
pub mod PortsWithinByte
pub mod LegBitByBit
pub mod PlayedIsCarried
pub mod IdleBetweenTurns
pub mod CursorsStayAlike
pub mod StringSaysOutcome
pub mod StringLawsHold
pub mod ByteLawsHold
