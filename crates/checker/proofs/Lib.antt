pub mod Accepting
pub mod Following
