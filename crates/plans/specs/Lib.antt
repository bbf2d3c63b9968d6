pub mod Plans
pub mod Promises
