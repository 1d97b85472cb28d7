pub mod PutIfRoom
