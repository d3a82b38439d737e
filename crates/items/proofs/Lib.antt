pub mod Fixed
pub mod Passing
