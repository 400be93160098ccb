mod Naming
mod Firsts
pub mod Counting
mod Settings
mod Sized
pub mod Ready
mod Planned
mod EpochPlanned
mod WorkedLimits
