pub mod Context
pub mod Numbers
pub mod Over
pub mod Laws
