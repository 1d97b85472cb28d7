pub mod Body
pub mod Varint
pub mod Reads
pub mod Sofar
pub mod Advances
