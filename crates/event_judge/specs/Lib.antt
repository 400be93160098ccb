pub mod Calls
pub mod Judging
pub mod JudgingLaws
