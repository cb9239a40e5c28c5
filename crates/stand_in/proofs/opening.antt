pub mod Opening
pub mod Standing
