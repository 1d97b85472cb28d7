pub mod Emit
pub mod Expected
pub mod Emits
pub mod Laws
