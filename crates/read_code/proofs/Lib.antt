pub mod OneRun
pub mod Short
pub mod SpanTable
pub mod Runs
pub mod CodeSteps
