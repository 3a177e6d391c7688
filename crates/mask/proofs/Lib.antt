pub mod Highest
pub mod Lowest
pub mod Mask
