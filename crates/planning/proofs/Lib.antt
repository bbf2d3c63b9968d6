pub mod Columns
pub mod Judging
pub mod Places
pub mod Urgency
