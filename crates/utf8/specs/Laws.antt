pub mod Utf8
pub mod Pairs
pub mod Grammar
pub mod Examples
