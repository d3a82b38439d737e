pub mod Reads
pub mod Built
