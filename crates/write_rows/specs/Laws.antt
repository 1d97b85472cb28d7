pub mod Tests
pub mod Walk
pub mod Leaf
pub mod Payload
pub mod RowItems
pub mod RowSpans
pub mod TreeWalk
pub mod Writing
