pub mod Months
pub mod WorkingDays
