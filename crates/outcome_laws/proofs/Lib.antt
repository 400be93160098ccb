pub mod Causing
