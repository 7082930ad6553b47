pub mod Offsets
pub mod Columns
