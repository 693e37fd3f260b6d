pub mod LetterByRank
pub mod FarSide
pub mod Alone
pub mod Machine
pub mod Bus
pub mod Asked
pub mod WithoutHolds
pub mod ExamplesHold
