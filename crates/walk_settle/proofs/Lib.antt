pub mod Choosing
pub mod Passing
pub mod Settling
