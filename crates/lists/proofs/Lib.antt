pub mod Places
pub mod Rotations
