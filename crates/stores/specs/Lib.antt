pub mod Layouts
pub mod Within
