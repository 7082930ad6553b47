pub mod Numbering
pub mod Claims
pub mod Corners
