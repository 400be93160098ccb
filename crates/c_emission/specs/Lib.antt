pub mod Blocks
pub mod Locals
pub mod Exchanges
pub mod Ends
pub mod Layout
pub mod Operations
pub mod Fitting
