pub mod Building
pub mod Sized
pub mod Laws
