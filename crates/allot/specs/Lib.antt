pub mod Allotted
pub mod UserWeights
pub mod Basis
pub mod Shared
pub mod Slots
