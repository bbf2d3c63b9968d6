pub mod Admission
pub mod Admitted
pub mod Plans
pub mod Published
pub mod Refusals
pub mod Texts
