pub mod Number
pub mod Errors
