pub mod Class
pub mod Scalars
pub mod Heads
pub mod Following
pub mod Laws
