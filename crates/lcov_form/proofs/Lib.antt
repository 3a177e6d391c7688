pub mod Claims
pub mod Instances
pub mod Records
pub mod Room
pub mod Runs
pub mod Steps
