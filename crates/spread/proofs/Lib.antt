pub mod Ranges
pub mod Periods
pub mod Outcomes
pub mod Laws
