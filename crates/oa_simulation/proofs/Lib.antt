pub mod FirstSlots
pub mod Starting
pub mod FirstWords
pub mod FirstCallers
pub mod Lifting
pub mod Homes
pub mod Induction
pub mod Refining
pub mod QuietSteps
pub mod Barring
pub mod Testing
pub mod FactsHold
pub mod Pools
mod Worked
pub mod sim_relation
pub mod sim_steps
