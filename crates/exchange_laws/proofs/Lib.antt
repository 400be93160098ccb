pub mod Steps
pub mod Exchanging
pub mod Retiring
pub mod Auxiliary
pub mod Publishing
pub mod Lists
