pub mod Walks
pub mod Standing
pub mod Heads
pub mod Rows
