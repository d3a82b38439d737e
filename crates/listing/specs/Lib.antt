pub mod Text
pub mod Names
pub mod Opening
pub mod Step
pub mod Listing
