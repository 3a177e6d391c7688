pub mod Keys
pub mod Putting
