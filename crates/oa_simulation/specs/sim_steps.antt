pub mod Quiet
pub mod Renewing
