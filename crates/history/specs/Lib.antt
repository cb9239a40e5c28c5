pub mod History
pub mod Search
