pub mod Digits
pub mod Faultless
pub mod Pieces
pub mod Sofar
pub mod Told
