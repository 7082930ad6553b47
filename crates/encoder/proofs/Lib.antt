pub mod Claims
pub mod Inside
