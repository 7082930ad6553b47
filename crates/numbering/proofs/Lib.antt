pub mod Bijection
pub mod Claims
pub mod Corners
pub mod Counts
pub mod Signed
pub mod Suffix
pub mod Walk
