pub mod Quantized
pub mod Claims
