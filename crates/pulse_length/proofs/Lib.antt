pub mod Squares
pub mod FloatLaws
