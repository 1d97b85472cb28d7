pub mod Entries
pub mod Tags
