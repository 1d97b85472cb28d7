pub mod Put
pub mod Same
pub mod LittleEndian
pub mod Zeros
pub mod Laws
