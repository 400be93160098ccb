pub mod Settling
pub mod Writes
pub mod Forward
