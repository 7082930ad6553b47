pub mod ShapeAnswers
pub mod Places
pub mod Claims
