pub mod File
pub mod Report
pub mod Text
pub mod Cases
pub mod Form
