pub mod Straying
