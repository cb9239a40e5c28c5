pub mod Amounts
pub mod NewConsumer
