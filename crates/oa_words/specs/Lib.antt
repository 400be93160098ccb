pub mod Words
pub mod SlotKinds
pub mod Within
pub mod Packed
pub mod Starts
pub mod Laws
pub mod Memories
