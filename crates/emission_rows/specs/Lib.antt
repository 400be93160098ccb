pub mod Telling
pub mod Targets
pub mod BlockRows
pub mod CallRows
