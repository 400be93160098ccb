pub mod Limited
pub mod SaneTargets
