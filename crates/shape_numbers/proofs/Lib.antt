pub mod Claims
pub mod Places
pub mod Parts
