pub mod Sums
pub mod Lists
pub mod Amounts
pub mod Nearest
pub mod Refusals
pub mod Buckets
