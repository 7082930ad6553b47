pub mod Projection
