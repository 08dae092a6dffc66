-- Document 01's worked examples, computed from the definitions: what a slip anywhere would change.
-- "Mornings at a limit" and the example of "Replay"
pub mod Mornings
-- "Replay": a script with every form and many lines of no form
pub mod ReplayTable
