pub mod Fields
pub mod Roomy
pub mod Whole
