pub mod Commands
pub mod Emitted
pub mod Judged
pub mod Endings
