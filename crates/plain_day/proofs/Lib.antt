pub mod Lists
pub mod Ranges
pub mod Again
pub mod ReadBack
pub mod Stores
pub mod Outcomes
