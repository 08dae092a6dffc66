pub mod Striking
pub mod Conflicts
pub mod FinalTurns
