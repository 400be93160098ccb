pub mod Answers
pub mod Workload
pub mod Rounds
pub mod Laws
pub mod AlikeLaws
pub mod WorkloadRuns
pub mod WorkloadTexts
pub mod report_laws
