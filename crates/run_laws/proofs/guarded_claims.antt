pub mod Passing
pub mod Walking
pub mod Hazards
pub mod Covered
pub mod Covering
pub mod Marked
pub mod Runs
pub mod Law
