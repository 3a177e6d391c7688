pub mod Bits
pub mod Highest
pub mod Lowest
