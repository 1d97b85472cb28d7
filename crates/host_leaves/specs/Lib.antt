pub mod HostLeaves
pub mod Laws
