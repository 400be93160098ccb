pub mod Sides
pub mod Bare
pub mod News
pub mod Slots
pub mod Turns
pub mod Emptying
pub mod Tables
pub mod KindCounts
mod WorkedLimits
