pub mod HostTables
pub mod Laws
pub mod Write
