pub mod Frontier
pub mod Stamps
