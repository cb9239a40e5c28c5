pub mod Boundary
pub mod Cases
