pub mod OwnValue
pub mod Telemetered
pub mod Cases
