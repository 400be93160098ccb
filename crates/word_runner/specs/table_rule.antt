pub mod Seen
pub mod Parts
pub mod Rule
pub mod Plays
pub mod Drives
pub mod Seats
pub mod Closing
pub mod Laws
