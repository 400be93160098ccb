pub mod Pools
pub mod Freeing
pub mod InUse
pub mod Settled
pub mod Claims
pub mod Together
