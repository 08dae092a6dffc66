-- The definitions, in document 01's order; nothing is proved here. Limits and empty values are in the crate `records`, the words in which
-- the demands and the paper's sentences are put in `statements`, what holds the definitions to those words in `sentences` and the crates of laws.
-- passed on, and plain things on lists
pub mod Types
pub mod Lists
-- "Store and transaction"
pub mod Store
pub mod Transaction
-- "Admitted stores"
pub mod Chains
pub mod Admitted
pub mod Fit
-- "Other calls"; a store's changes come from "Steps and faults", the numbers from "Numbers seen"
pub mod Numbers
pub mod Puts
pub mod Calls
pub mod Recovery
-- "Steps and faults"
pub mod Faults
pub mod Tests
pub mod Changes
pub mod Commit
-- "Numbers seen"
pub mod Answer
-- "Replay"
pub mod Replay
pub mod Script
-- every definition opened, for laws that compute
pub mod Computing
