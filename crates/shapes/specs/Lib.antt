pub mod Sets
pub mod Claims
