pub mod Claims
pub mod Form
pub mod Instances
pub mod Reading
