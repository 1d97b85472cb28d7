pub mod LinesRead
pub mod Starts
pub mod Laws
