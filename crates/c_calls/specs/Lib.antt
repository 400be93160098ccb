pub mod Turns
pub mod News
