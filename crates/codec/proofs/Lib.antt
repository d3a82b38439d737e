pub mod Numbers
pub mod Texts
pub mod Values
pub mod Lists
