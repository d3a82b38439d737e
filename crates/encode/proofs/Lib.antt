pub mod Answered
pub mod Ended
pub mod Measures
pub mod Shapes
pub mod Turns
pub mod TwoPasses
