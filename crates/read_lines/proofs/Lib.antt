pub mod Starts
pub mod Flagged
