pub mod Laws
pub mod Searching
pub mod Steps
