pub mod Signed
pub mod Position
pub mod Laws
