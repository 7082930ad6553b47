pub mod Answers
pub mod Elements
pub mod Pinned
pub mod Places
