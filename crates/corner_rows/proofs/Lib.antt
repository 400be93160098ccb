pub mod Runs
pub mod States
pub mod Turns
