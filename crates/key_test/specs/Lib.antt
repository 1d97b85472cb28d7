pub mod Keys
pub mod Told
pub mod Laws
