pub mod Revised
pub mod Revisions
pub mod Assigning
