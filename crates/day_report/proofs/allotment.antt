pub mod Shares
pub mod Allotting
