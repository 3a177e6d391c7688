pub mod Filling
pub mod Keeps
