pub mod Interpolate
pub mod Claims
