pub mod RowAnswer
pub mod Row
