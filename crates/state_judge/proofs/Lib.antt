pub mod Reaching
pub mod Gaining
pub mod Breaching
