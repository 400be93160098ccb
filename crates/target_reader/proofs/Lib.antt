mod TargetNews
mod Opened
pub mod Ordered
mod Commits
mod Plains
mod Reading
pub mod Targets
pub mod OpsLimits
pub mod CodeSpelled
pub mod OpsSpelled
pub mod Spelled
mod OwnLines
