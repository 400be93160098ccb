pub mod Eight
pub mod Retired
pub mod Conditions
pub mod Breaches
