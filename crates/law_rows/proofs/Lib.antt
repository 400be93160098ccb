pub mod Rows
pub mod Calls
pub mod Tables
pub mod Slots
