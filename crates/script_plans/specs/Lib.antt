pub mod Shapes
pub mod Told
pub mod Plans
pub mod EpochPlans
