pub mod Offsets
pub mod Claims
