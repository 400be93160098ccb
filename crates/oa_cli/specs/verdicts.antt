pub mod Refusals
pub mod Telling
pub mod Stops
pub mod Endings
