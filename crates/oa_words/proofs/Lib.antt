pub mod Products
pub mod Counts
pub mod KindRanges
pub mod Homes
pub mod Places
pub mod Parts
pub mod Pieces
pub mod StartPlaces
pub mod Worked
pub mod Names
mod WorkedLimits
