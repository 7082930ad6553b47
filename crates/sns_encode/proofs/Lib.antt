pub mod EncodeAnswers
pub mod Places
pub mod Claims
