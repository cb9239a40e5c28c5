pub mod Limits
pub mod Fields
pub mod Day
pub mod Answers
pub mod Calls
pub mod Struct
pub mod Cases
