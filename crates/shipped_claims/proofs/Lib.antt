pub mod Settled
pub mod Published
pub mod WrapUps
pub mod Sets
pub mod Queue
pub mod NeverFull
pub mod Worked
