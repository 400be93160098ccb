pub mod CursorLines
pub mod LinesLeft
mod LinesAfter
mod LinesPassed
mod Versions
mod FrontWords
pub mod Fronts
mod Reading
mod FrontTexts
mod WorkedFronts
mod LineReads
mod News
mod Counts
