pub mod Beginning
pub mod Standing
