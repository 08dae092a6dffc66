-- What Rattle's types say of a store, and the definitions' lists don't.
pub mod Sized
-- The paper's sentences in words, section by section.
pub mod StoreWords
pub mod AdmittedWords
pub mod ReadWords
pub mod CallWords
pub mod StepWords
pub mod ReplayWords
-- The words in which the demands are put.
pub mod Words
pub mod ShowWords
-- "Numbers seen": a table and its reading; commit's table; the other calls' tables.
pub mod Table
pub mod NumbersSeen
pub mod CountWords
pub mod FaultWords
pub mod OtherNumbers
-- The three demands.
pub mod Demands
-- Document 02: wishes 7, 2 and 4.
pub mod MinuteWords
pub mod AbsentWords
pub mod CauseWords
pub mod EarlierWords
