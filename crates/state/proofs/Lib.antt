pub mod Ranges
pub mod Numbers
pub mod Cells
pub mod Totals
pub mod Lows
