pub mod Decoded
pub mod Claims
