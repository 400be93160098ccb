pub mod Reckoned
pub mod Callers
pub mod Walking
pub mod Keeping
pub mod Worlds
pub mod Laws
pub mod Beside
pub mod Simulated
