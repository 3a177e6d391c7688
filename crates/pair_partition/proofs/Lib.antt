pub mod Pivot
pub mod Sides
pub mod Writing
