pub mod Deadline
pub mod Plans
pub mod Test
pub mod Turns
pub mod Verdicts
pub mod Walks
