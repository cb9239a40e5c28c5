pub mod Parts
pub mod Cells
