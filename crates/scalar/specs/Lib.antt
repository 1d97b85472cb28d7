pub mod Scalar
pub mod Laws
