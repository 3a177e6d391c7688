pub mod Checkable
pub mod Counts
pub mod Verdicts
