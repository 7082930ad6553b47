pub mod Candidate
pub mod Scan
pub mod Claims
