pub mod Answerable
pub mod Outcomes
