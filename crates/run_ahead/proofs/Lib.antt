pub mod Changing
pub mod Mirroring
pub mod Telling
pub mod Plain
pub mod Local
pub mod Quiet
pub mod Standing
pub mod Enabled
pub mod Watched
pub mod Starting
pub mod GuardRows
pub mod Getting
pub mod LocalRuns
pub mod Accessing
pub mod Bare
pub mod TypedMemory
pub mod TypedCallers
pub mod TypedStart
pub mod TypedLoads
pub mod TypedRuns
pub mod Asked
pub mod Accesses
pub mod Tests
pub mod Begins
pub mod Lists
pub mod Ends
pub mod Restarting
pub mod Names
mod Worked
mod TypedRows
mod FollowedRows
