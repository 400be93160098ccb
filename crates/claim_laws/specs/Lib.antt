pub mod CallSteps
pub mod Causes
pub mod Untouched
pub mod Full
pub mod Claimed
pub mod Publishing
