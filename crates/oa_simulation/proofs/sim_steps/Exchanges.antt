-- What an exchange and a `new` do to words and names.
pub mod Exchanging
pub mod Guarded
pub mod Writing
pub mod Entering
pub mod Fresh
pub mod Made
pub mod Offering
pub mod Placing
pub mod Dropping
pub mod Done
