pub mod Lowering
pub mod Statuses
pub mod Keeping
pub mod Ending
pub mod Runs
pub mod Worked
