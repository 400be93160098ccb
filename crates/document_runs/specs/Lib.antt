pub mod Reports
pub mod Texts
pub mod Runs
pub mod Blanks
pub mod PlanRuns
pub mod Epochs
pub mod Stops
