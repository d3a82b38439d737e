pub mod ItemRead
