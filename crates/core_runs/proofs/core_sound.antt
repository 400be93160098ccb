pub mod Grouped
pub mod Machine
pub mod StartSound
pub mod Stamping
pub mod Reached
