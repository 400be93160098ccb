pub mod Among
pub mod Bounded
pub mod Settled
pub mod Inside
pub mod Forwards
pub mod Written
mod Worked
