pub mod Choices
pub mod Candidates
pub mod Claims
