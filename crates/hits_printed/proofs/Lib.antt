pub mod Failed
pub mod Instances
pub mod Refusals
