pub mod Tags
pub mod KeyTest
