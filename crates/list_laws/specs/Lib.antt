pub mod Every
pub mod ListOf
pub mod Some
