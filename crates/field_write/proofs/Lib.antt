pub mod Bytes
pub mod Placed
pub mod Stored
