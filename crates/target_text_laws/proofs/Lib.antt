pub mod OpsSaid
pub mod Parts
pub mod TargetsSaid
pub mod TargetsRead
