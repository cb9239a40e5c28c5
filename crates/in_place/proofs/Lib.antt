pub mod Effects
pub mod Listing
pub mod Taken
