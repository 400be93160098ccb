pub mod Filled
pub mod OneKind
pub mod Redirected
pub mod ErasedPlaces
pub mod SourcePaths
pub mod InText
pub mod TargetSettled
pub mod Used
pub mod Entries
pub mod TextRules
pub mod Forms
pub mod FreshRules
pub mod KeptRules
pub mod SetRules
pub mod Trusts
mod Worked
