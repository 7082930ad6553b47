pub mod Length
pub mod Claims
