-- What holds the definitions to document 01: for each sentence a law in words, proved straight from the definition's text, so that a definition
-- that says something else fails here. The words are in the crate `statements`. What only a whole run shows stands in the crates of laws above.
-- "Store and transaction"; what one store changes
pub mod StoreSays
pub mod PaperNumbers
pub mod LeapYear
-- "Admitted stores"
pub mod AdmittedSays
-- "Other calls" and recovery; what a transaction sees and reads
pub mod CallsSay
pub mod ReadsSay
pub mod Forged
-- "Steps and faults"
pub mod StepsSay
pub mod FaultsSay
pub mod FaultsUnheeded
-- "Numbers seen": the numbers and fates; commit's table, straight from the steps; the other calls' tables
pub mod NumbersSay
pub mod RunSays
pub mod FirstLine
pub mod Refusals
pub mod RefusedCalls
-- "Replay": its bytes; its lines
pub mod ScriptSays
pub mod ReplaySays
-- document 02, wish 4: without the fourth and the fifth field each line is what it was
pub mod AsBefore
