pub mod TailLines
pub mod DocumentRead
pub mod TailRead
pub mod TailShown
pub mod DocumentLaws
pub mod DocumentLimits
