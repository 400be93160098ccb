pub mod Chains
pub mod Runs
pub mod Carrying
pub mod Loads
pub mod Law
