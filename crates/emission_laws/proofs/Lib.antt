pub mod Tables
pub mod Frames
pub mod Sides
mod Accesses
pub mod Clearing
pub mod Clears
pub mod LocalSteps
pub mod LocalCode
pub mod Sizes
pub mod Layouts
pub mod Starts
pub mod Stops
pub mod Fitting
mod Worked
