pub mod Instruction
pub mod FrontRead
pub mod Cursors
pub mod Version
pub mod FaultShown
pub mod FrontLaws
pub mod Drafted
pub mod DraftShown
