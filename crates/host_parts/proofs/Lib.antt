pub mod Renewed
