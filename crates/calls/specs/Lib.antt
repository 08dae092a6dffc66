-- Why a call refuses.
pub mod Refused
-- The fields of a store, lent.
pub mod LentWhole
-- The calls, from what their code finds.
pub mod BeginAnswer
pub mod LockAnswer
pub mod WriteAnswer
pub mod AbortAnswer
pub mod ReadAnswer
pub mod LookupAnswer
pub mod Passed
-- Where their pointers lie.
pub mod Placed
