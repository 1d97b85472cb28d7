pub mod CodeRead
pub mod Runs
pub mod Spans
