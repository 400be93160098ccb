pub mod Turning
pub mod Zeroing
pub mod Fitting
pub mod Claiming
pub mod News
