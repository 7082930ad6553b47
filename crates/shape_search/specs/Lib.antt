pub mod Shape
pub mod Claims
