pub mod EncodeClaims
pub mod Alike
pub mod Demands
