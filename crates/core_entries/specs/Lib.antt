pub mod Kinds
pub mod Callers
pub mod Steps
pub mod StepSigns
pub mod StepRuns
pub mod Told
