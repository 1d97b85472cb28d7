pub mod PoolRead
pub mod Strings
pub mod Laws
