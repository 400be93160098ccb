pub mod Forms
pub mod Mends
pub mod Limits
