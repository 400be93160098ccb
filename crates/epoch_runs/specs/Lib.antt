pub mod Begins
pub mod Source
