pub mod Rising
pub mod Warnings
pub mod Loading
pub mod Passing
