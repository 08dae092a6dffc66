-- Laws of commit's run.
-- the table of faults; the four tests in words, and entry by entry
pub mod FaultTable
pub mod FourTests
pub mod Entries
-- puts by their kinds, and what they leave
pub mod OnlyKinds
pub mod GuardPuts
pub mod FreedSlots
pub mod FinalWrites
pub mod PublishedChains
pub mod OwnSlots
-- how a run ends, and what each number leaves
pub mod Outcome
pub mod Kinds
pub mod FirstRows
pub mod Released
pub mod Aftermath
pub mod Cutting
pub mod EventLaws
-- the form that code follows: the first gate that holds
pub mod Gates
