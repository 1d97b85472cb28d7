pub mod Utf8
pub mod Pairs
pub mod Skips
pub mod Laws
