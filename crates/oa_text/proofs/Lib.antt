pub mod Again
pub mod Counts
pub mod TokenLemmas
pub mod WordLemmas
pub mod Writing
mod Copied
mod Digits
mod LineLemmas
mod NumberLemmas
mod SliceLemmas
mod WorkedLimits
