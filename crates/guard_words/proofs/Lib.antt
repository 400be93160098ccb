pub mod Least
pub mod Passing
pub mod Rows
