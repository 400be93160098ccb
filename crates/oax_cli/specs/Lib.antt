pub mod Requests
pub mod Endings
pub mod Telling
pub mod Readings
pub mod Judgements
