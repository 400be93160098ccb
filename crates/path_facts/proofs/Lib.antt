pub mod Fitting
pub mod Arriving
