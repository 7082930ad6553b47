pub mod Shapes
pub mod Facts
pub mod Held
pub mod Sized
pub mod Corner
pub mod Claims
