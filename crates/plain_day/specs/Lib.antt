pub mod Layout
pub mod Plain
pub mod Lines
pub mod Tested
