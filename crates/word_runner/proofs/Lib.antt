pub mod Ended
mod Taking
