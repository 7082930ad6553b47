pub mod Numbers
pub mod Claims
