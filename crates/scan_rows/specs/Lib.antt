pub mod Row
pub mod Fits
pub mod Under
pub mod Found
pub mod Code
pub mod Laws
