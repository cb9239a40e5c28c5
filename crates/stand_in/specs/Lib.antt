pub mod StandsIn
pub mod Rows
pub mod Openings
