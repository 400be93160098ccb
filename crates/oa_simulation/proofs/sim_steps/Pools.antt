-- Phases, slots, sweeps and claims.
pub mod Phases
pub mod Slots
pub mod Sweeping
pub mod Claiming
pub mod Core
