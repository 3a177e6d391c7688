pub mod Beginning
pub mod Plain
