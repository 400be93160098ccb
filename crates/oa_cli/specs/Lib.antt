pub mod Judged
pub mod Complete
pub mod Headline
pub mod verdicts
