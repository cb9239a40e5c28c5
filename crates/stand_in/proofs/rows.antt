pub mod Rising
pub mod Rows
