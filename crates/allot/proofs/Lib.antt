mod OfParts
pub mod Outcomes
