pub mod Sections
pub mod Mark
pub mod WellFormed
