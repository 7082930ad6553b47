pub mod Sizes
pub mod Pairs
pub mod Sets
