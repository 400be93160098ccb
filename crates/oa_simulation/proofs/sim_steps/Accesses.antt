-- Loads, puts, nodes that are made, and exchanges, with the local code after them.
pub mod Loads
pub mod Puts
pub mod News
pub mod Newing
pub mod Failing
pub mod Making
pub mod Ending
pub mod Stepping
pub mod Zeroed
pub mod Succeeding
pub mod Objects
pub mod Entries
