pub mod HostLeaves
