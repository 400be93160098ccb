pub mod States
pub mod Finals
pub mod Stops
pub mod Shown
pub mod Calls
