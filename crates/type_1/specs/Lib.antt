pub mod MonthConsumption
pub mod DayShare
pub mod Type1
