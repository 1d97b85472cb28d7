pub mod Put
pub mod Zeros
pub mod LittleEndian
pub mod Same
