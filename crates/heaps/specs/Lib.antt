pub mod Heaps
pub mod Laws
