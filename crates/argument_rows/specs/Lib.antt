pub mod Losing
pub mod Calls
