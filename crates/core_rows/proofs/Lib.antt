pub mod Compiled
pub mod Counters
pub mod Swaps
pub mod Presses
pub mod Touches
pub mod Meetings
pub mod Drops
pub mod Cradles
pub mod Lists
pub mod Pairs
pub mod Shared
pub mod Replays
pub mod Combined
pub mod Chains
mod TwoKinds
pub mod ThreeKinds
