pub mod ListImages
pub mod GuardMarks
pub mod ListTops
pub mod ListNames
pub mod ScriptRuns
pub mod DrawnRows
