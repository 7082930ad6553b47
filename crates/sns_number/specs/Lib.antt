pub mod Unpack
pub mod Pack
pub mod Claims
