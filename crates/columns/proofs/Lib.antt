pub mod Tables
pub mod Shared
pub mod Padding
