pub mod Ranks
pub mod Order
pub mod Shares
pub mod Prorated
pub mod Signs
pub mod Fairness
pub mod Only
