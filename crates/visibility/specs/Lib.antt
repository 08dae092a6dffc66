pub mod Own
pub mod ChainTurns
pub mod Found
pub mod Slots
pub mod OwnMarks
