pub mod Codes
pub mod Whole
pub mod Nearest
pub mod Residual
mod Tied
