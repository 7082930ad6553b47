pub mod Sums
pub mod Within
