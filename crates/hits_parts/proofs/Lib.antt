pub mod Parts
pub mod Room
