pub mod Spelled
pub mod Laws
pub mod Onward
