pub mod Reached
pub mod Fitting
pub mod Calls
pub mod Told
