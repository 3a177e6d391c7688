pub mod Cursors
pub mod Moving
pub mod Placing
