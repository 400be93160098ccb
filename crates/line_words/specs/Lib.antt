pub mod Faults
pub mod Answered
pub mod Shown
pub mod Lines
