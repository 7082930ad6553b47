pub mod Shaping
pub mod Claims
