pub mod Examples
pub mod Legal
pub mod Levels
pub mod Punctual
pub mod Running
pub mod Schedules
pub mod Soundness
