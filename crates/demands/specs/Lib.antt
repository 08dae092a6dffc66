pub mod Demand1
-- what a commit leaves of the transaction, by its number
pub mod TxLeft
pub mod Demand3
pub mod Demand2
-- what is shown, by begin, read and lookup
pub mod Shows
pub mod ReachedStores
pub mod ShownMornings
-- histories with faults and cuts, and what meets the premises
pub mod Struck
pub mod Exhibits
-- document 02, wish 7: no key over the last minute
pub mod Minutes
pub mod HeldMinutes
-- wish 2: the read of an absent row
pub mod HeadsStay
pub mod AbsentRows
pub mod AbsentMorning
-- the stamps after every commit
pub mod StampsAfter
-- the guards after each store of a commit
pub mod GuardsInTurn
pub mod GuardedMorning
-- wish 4: which test refused
pub mod Causes
pub mod CauseMornings
