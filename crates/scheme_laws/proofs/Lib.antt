pub mod Fewer
pub mod Sets
