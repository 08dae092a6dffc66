pub mod Keep
pub mod Trim
pub mod Clear
pub mod Rebuild
pub mod Together
