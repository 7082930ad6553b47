pub mod CheckFactor
pub mod Claims
