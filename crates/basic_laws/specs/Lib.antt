-- Laws that every crate above shares.
-- tests
pub mod Cases
pub mod Rearranged
-- lists, and tests of lists
pub mod Members
pub mod AllOf
pub mod Chains
pub mod FirstTrue
pub mod FinalPlaces
pub mod Rising
pub mod EachTwo
pub mod Blanks
pub mod Places
pub mod Placed
-- lists laid out in arrays
pub mod LaidOut
pub mod LaidOutActive
pub mod HeadPostings
-- chains and the walk
pub mod Chain
pub mod Walk
pub mod Sound
pub mod Chained
pub mod Check
-- the refusals, taken apart; the tests of admission
pub mod Refusals
pub mod TestParts
