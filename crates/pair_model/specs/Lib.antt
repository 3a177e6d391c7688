pub mod Claims
pub mod Instances
pub mod Pair
