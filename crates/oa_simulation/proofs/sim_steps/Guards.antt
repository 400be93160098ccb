-- Checks, guards, clears and retirements.
pub mod Residents
pub mod Checks
pub mod Guarding
pub mod Publishing
pub mod Unguarding
pub mod Quiet
pub mod Retiring
