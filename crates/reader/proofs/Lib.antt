pub mod RowRoom
pub mod Places
