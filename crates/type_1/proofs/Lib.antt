pub mod Bases
pub mod Passed34
pub mod PassedOther
pub mod Tolls
