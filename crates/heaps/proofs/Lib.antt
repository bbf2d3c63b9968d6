pub mod Cells
pub mod Searching
pub mod Sifting
pub mod Sorting
