pub mod Writing
pub mod Casts
