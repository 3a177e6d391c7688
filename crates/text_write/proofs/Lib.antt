pub mod Decimals
pub mod Instances
pub mod Laid
pub mod Steps
