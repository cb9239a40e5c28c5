pub mod Lined
pub mod Cell
