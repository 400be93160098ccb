pub mod Values
pub mod Straying
pub mod Calling
pub mod Claiming
pub mod Beside
