pub mod Bands
pub mod Claims
