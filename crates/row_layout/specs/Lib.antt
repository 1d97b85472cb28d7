pub mod Digits
pub mod Layout
pub mod Number
pub mod Row
pub mod Under
pub mod Laws
