pub mod Finding
pub mod Lines
