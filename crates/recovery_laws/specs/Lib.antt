-- What a row shows; the versions of its chain.
pub mod Shown
pub mod Versions
pub mod Carried
-- Theorem R: recovery.
pub mod ArraysKept
pub mod Recovering
pub mod Repaired
-- Theorem P: every prefix of a commit's stores.
pub mod Unfinished
pub mod Sizes
pub mod Along
pub mod Calm
pub mod PutBlocks
pub mod Live
pub mod OwnFreed
pub mod Dropped
pub mod Marked
pub mod Publishing
pub mod Start
pub mod Ways
pub mod Prefix
-- P, then R; and that a commit leaves a resting store.
pub mod EveryStore
pub mod Cuts
pub mod Again
