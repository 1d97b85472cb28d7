pub mod Numbers
pub mod Positions
pub mod Context
pub mod Over
pub mod Front
