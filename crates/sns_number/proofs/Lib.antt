pub mod Pairs
pub mod UnpackAnswers
pub mod PackAnswers
pub mod Places
pub mod Claims
