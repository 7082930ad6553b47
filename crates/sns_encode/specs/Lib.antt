pub mod Encode
pub mod Claims
