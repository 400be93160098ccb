pub mod Lists
pub mod Telling
pub mod Dealing
pub mod Recording
pub mod Keeping
pub mod Reading
pub mod Following
pub mod Worked
