pub mod Emit
pub mod Emitter
pub mod Bytes
pub mod Lent
pub mod Whole
