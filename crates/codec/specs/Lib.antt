pub mod CursorRead
pub mod Fixed
pub mod Words
