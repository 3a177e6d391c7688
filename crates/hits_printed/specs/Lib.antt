pub mod Instances
pub mod Refusals
