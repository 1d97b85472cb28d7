pub mod Hints
pub mod Laws
pub mod Room
pub mod Script
pub mod Tables
