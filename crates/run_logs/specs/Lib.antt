pub mod Logged
pub mod LogLaws
