pub mod Longest
pub mod Halves
pub mod Entered
pub mod Written
pub mod OfScripts
