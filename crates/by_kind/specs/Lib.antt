pub mod Document
pub mod Values
pub mod ByName
