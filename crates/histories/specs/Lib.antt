pub mod Histories
pub mod Search
