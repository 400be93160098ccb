pub mod Shown
pub mod Outcome
pub mod table_rule
