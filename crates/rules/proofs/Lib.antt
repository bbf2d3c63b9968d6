pub mod Examples
pub mod Least
pub mod Rebounds
pub mod Walks
