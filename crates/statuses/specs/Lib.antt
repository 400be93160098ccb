pub mod Statuses
pub mod Explanations
