pub mod Accepted
pub mod Joint
pub mod Claims
