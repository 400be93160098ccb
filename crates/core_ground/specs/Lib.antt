pub mod Running
pub mod Tables
pub mod Ports
pub mod Starts
