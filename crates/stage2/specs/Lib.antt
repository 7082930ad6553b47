pub mod Stage2
pub mod Claims
