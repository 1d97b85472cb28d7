pub mod LineIndex
pub mod LineCol
pub mod Rises
pub mod Laws
