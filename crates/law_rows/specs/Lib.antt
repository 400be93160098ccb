pub mod RowStates
pub mod CallRuns
pub mod TableStates
pub mod NamedSlots
