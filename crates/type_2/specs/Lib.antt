pub mod Type2
