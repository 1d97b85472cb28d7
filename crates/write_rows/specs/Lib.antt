pub mod Walk
pub mod Payload
pub mod Reached
pub mod Held
pub mod Written
pub mod Laws
