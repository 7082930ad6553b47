pub mod Target
pub mod Claims
