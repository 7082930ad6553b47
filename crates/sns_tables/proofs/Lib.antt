pub mod Sizes
pub mod ByPlace
pub mod Codes
pub mod Rotation
