pub mod Faults
pub mod Owed
pub mod Shapes
pub mod Turns
pub mod Messages
pub mod Remembered
