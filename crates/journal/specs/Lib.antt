-- The definitions that the contracts cite.
pub mod Journal
pub mod Adds
-- Laws about them.
pub mod Held
pub mod Pushing
pub mod AtMarks
pub mod Applied
