pub mod Limits
pub mod Setters
pub mod Relations
pub mod Zero
