pub mod Allowed
pub mod Apart
pub mod Fits
pub mod Fitting
