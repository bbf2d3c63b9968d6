pub mod Items
pub mod Sets
pub mod Orders
