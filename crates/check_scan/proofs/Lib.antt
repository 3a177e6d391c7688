pub mod Naming
pub mod Reaching
pub mod Scanning
