pub mod Synthesis
pub mod Claims
