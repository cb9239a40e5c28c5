pub mod Listing
pub mod Values
