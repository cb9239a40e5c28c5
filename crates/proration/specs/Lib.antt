pub mod Proration
pub mod Laws
