pub mod Judged
pub mod Made
pub mod Short
