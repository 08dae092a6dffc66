-- A table of numbers, and the column "When" by itself.
pub mod TableLaws
pub mod Column
-- Every commit answers by the table of "Numbers seen".
pub mod Recording
pub mod Ended
pub mod Called
pub mod Stored
pub mod Seen
-- What follows.
pub mod Reasons
pub mod Fates
pub mod Counts
pub mod Unheld
