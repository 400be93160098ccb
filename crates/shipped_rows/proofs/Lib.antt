pub mod Rows
mod Legal
