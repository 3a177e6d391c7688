pub mod Progress
pub mod Rounds
