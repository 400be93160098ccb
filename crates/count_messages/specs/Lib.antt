pub mod Passed
pub mod Stray
