pub mod Allotted
pub mod Lines
pub mod Room
