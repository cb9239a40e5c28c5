pub mod Ranges
pub mod Cells
