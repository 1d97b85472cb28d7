pub mod PutIfRoom
pub mod Laws
