pub mod Following
mod Writing
