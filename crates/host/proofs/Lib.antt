pub mod Choices
pub mod EveryKind
pub mod Numbers
