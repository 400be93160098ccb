pub mod Lone
pub mod Held
pub mod Window
pub mod Whole
pub mod WrapUp
pub mod Counted
pub mod Begun
