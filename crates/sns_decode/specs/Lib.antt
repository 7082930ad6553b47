pub mod Decode
pub mod Claims
