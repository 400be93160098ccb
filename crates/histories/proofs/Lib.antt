pub mod Beginnings
mod WorkedLimits
