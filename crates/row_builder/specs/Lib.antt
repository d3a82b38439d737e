pub mod Built
pub mod Building
pub mod Steps
