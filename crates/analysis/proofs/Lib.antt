pub mod Amounts
pub mod Blank
pub mod Counted
pub mod Facts
pub mod Interfering
pub mod Largest
pub mod Marks
