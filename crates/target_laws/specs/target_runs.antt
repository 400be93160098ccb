pub mod Runnable
pub mod Sane
