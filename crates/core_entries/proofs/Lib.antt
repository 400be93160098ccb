mod Calling
pub mod Stepping
mod Running
mod Counted
mod SignNames
mod StepsTold
mod SecondClear
