pub mod Stage1
pub mod Claims
