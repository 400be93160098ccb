pub mod BreachRows
pub mod Conditions
pub mod Eight
pub mod RetiredRows
