pub mod Arming
pub mod Symbol
pub mod CursorBounds
pub mod Cursor
pub mod Script
pub mod MasterState
pub mod Master
pub mod Mark
