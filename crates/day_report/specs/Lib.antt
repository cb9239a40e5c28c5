pub mod Entered
pub mod Answered
