pub mod Facts
pub mod Parts
mod Sizes
