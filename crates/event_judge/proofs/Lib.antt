mod Worked
pub mod Walks
pub mod Agreements
pub mod Verdicts
pub mod Rejections
