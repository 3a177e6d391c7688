pub mod Difference
pub mod Passing
