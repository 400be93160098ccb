pub mod Reach
pub mod Runs
pub mod Breaches
