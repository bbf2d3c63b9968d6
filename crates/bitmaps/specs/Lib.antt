pub mod Bitmaps
pub mod Levels
