pub mod FirstDigits
pub mod Pieces
pub mod Places
pub mod Split
pub mod Splits
pub mod Values
