pub mod Machines
pub mod Needs
pub mod Found
pub mod FlawAnswers
