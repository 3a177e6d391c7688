pub mod Moves
pub mod State
