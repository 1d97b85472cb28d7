pub mod Scalars
pub mod Heads
pub mod Following
