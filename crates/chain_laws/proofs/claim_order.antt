pub mod Ranges
pub mod Frontier
pub mod Stamps
