pub mod Taking
pub mod Steps
pub mod Leading
pub mod SectionSteps
