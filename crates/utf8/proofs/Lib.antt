pub mod Runs
pub mod Ascii
pub mod Skips
