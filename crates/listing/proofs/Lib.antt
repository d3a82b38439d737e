pub mod Writing
pub mod Steps
pub mod Digits
pub mod Openings
pub mod Filling
pub mod Arms
pub mod Printed
