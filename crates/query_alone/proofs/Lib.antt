pub mod Alone
pub mod Returning
