pub mod Images
pub mod Closed
pub mod Tests
