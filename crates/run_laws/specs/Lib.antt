pub mod Each
pub mod Source
pub mod begin_laws
pub mod guarded_claims
pub mod stale_laws
pub mod lone_claims
