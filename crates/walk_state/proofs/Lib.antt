pub mod Choosing
pub mod Going
pub mod InPlay
pub mod Moving
pub mod Runs
