pub mod Lining
pub mod OneByOne
