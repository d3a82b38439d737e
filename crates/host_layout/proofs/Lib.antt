pub mod Signs
pub mod Unread
