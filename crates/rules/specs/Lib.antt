pub mod Bounds
pub mod Examples
pub mod Rules
pub mod Search
pub mod Standard
pub mod Lawful
pub mod Carrying
