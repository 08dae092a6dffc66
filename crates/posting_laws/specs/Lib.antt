-- What postings are, and those of the heads.
pub mod Pair
pub mod HeadsTold
pub mod RestingPostings
-- How puts change them.
pub mod Posted
pub mod Written
pub mod Undone
pub mod Aside
pub mod Rolled
pub mod PublishedHeads
pub mod Exact
pub mod KeepsExact
pub mod Spared
pub mod Clean
pub mod Healthy
pub mod StaysInForm
pub mod Formed
-- All calls.
pub mod LookupFinds
pub mod CallsKeepPostings
pub mod Rebuilt
pub mod RollbackMorning
