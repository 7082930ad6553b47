pub mod InterpolateAnswers
pub mod Places
pub mod Claims
