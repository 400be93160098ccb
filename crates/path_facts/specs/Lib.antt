pub mod Facts
pub mod Nodes
