pub mod Answers
pub mod Days
pub mod DayTypes
