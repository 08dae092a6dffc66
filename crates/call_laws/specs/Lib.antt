-- Laws of begin, read, write, lookup, row lock and abort.
-- Their numbers.
pub mod Passed
-- What the store and the transaction keep.
pub mod ActiveList
pub mod Near
pub mod Counts
pub mod Keeps
pub mod StaysFit
-- Each call.
pub mod BeginLaws
pub mod ReadLaws
pub mod AbsentReads
pub mod KeepsReads
pub mod Took
pub mod WriteLaws
pub mod CandidateRows
pub mod OneByOne
pub mod StampLaws
pub mod LookupLaws
pub mod JustBegun
pub mod RowLockLaws
pub mod AbortLaws
pub mod CommitAborts
-- All of them.
pub mod Others
pub mod CommitOthers
pub mod Always
pub mod StampsKept
