pub mod Closed
pub mod InText
pub mod Typed
mod Worked
