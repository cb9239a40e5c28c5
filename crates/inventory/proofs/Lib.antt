pub mod Listing
pub mod Outcomes
pub mod Laws
