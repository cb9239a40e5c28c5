pub mod Inventory
pub mod Laws
pub mod Listed
pub mod Row
pub mod Cells
