pub mod Months
pub mod Masks
