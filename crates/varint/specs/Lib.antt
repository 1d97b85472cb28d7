pub mod Uleb128
pub mod Varint
pub mod Laws
