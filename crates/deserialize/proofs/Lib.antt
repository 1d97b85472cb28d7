pub mod PlainWords
pub mod Script
pub mod Tables
