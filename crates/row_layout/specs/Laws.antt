pub mod Digits
pub mod Layout
pub mod Row
