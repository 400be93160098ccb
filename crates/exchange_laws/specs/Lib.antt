pub mod Exchanging
pub mod Lists
