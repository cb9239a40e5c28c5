pub mod Laws
pub mod Telemetering
