pub mod TargetKinds
pub mod AlongPaths
pub mod TextKinds
pub mod Laws
