mod Keeping
pub mod Runnable
mod Placing
mod Starting
mod Loading
