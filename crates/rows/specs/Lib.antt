pub mod Listed
pub mod Laws
