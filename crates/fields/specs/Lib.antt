-- How a lent array is read, and the lists that code lays out in arrays.
pub mod Lent
pub mod First
pub mod FirstCount
pub mod Pad
pub mod Marks
pub mod Few
-- The few tests that every call asks.
pub mod ActivePlaces
pub mod Locks
-- The walk of all chains.
pub mod Walked
-- How a loop tests an array, and a row of tests.
pub mod Facts
pub mod Scan
pub mod Climb
pub mod Every
