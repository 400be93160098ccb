pub mod Methods
pub mod Places
pub mod LocalCode
pub mod Uses
pub mod Trusted
pub mod Rules
pub mod local_laws
pub mod target_runs
