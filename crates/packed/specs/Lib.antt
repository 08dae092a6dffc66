-- The definitions that the contracts cite.
pub mod Packed
pub mod Halving
-- Laws about them.
pub mod Insert
pub mod Remove
pub mod HalvingTurns
pub mod HalvingLaws
-- Computed.
pub mod HalvingExamples
