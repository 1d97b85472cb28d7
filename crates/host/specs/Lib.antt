pub mod Host
pub mod Laws
