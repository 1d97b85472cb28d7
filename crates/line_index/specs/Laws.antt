pub mod LineIndex
pub mod LineCol
