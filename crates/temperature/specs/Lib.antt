pub mod Means
pub mod Temperature
