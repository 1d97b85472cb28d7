pub mod State
pub mod Did
pub mod Does
pub mod Entries
pub mod Items
pub mod Under
pub mod Outer
pub mod Laws
