pub mod Checks
pub mod Enough
pub mod Fits
pub mod Runs
