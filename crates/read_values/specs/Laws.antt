pub mod Did
pub mod Does
pub mod Entries
