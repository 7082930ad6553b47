pub mod Pulses
pub mod Numbers
pub mod Claims
