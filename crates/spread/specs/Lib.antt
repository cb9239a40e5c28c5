pub mod Period
pub mod Spread
pub mod Laws
