pub mod Answered
pub mod Moves
pub mod OneLine
pub mod Rows
pub mod Spelling
