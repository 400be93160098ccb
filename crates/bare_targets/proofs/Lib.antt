pub mod PlainCode
pub mod Erasing
mod Limited
pub mod Runnable
