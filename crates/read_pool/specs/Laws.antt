pub mod PoolTable
pub mod PoolRead
