pub mod Drafts
pub mod Lines
pub mod Names
pub mod Outcomes
pub mod Reading
pub mod Texts
pub mod Words
