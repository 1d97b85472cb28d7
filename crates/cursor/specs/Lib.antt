pub mod Body
pub mod Reads
pub mod Advances
pub mod Laws
