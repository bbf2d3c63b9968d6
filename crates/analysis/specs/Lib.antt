pub mod Counting
pub mod Interference
pub mod Kept
pub mod Laws
pub mod Tasks
pub mod Work
