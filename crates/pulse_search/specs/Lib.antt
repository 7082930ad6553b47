pub mod Pulse
pub mod Claims
