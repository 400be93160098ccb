pub mod Events
pub mod Fresh
pub mod Rooms
mod Wanting
