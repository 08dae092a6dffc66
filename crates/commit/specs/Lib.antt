-- the storing half
pub mod Plan
-- the two halves joined
pub mod Tried
pub mod Planning
pub mod Run
