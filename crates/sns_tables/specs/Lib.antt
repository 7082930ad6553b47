pub mod Codebooks
pub mod ByPlace
pub mod Codes
pub mod Rotation
pub mod Gains
pub mod Claims
