pub mod Fitting
pub mod Printed
pub mod Room
pub mod Texts
