pub mod Input
pub mod Instances
