pub mod Weighing
pub mod Counting
