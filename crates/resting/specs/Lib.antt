-- The tests on the active list, the chains, the slots and the postings, a turn at a time.
pub mod ActiveForm
pub mod VersionTurns
pub mod Used
pub mod PostingForm
pub mod PostingsTold
pub mod SlotForm
-- The store's tests as rows of those.
pub mod Row
