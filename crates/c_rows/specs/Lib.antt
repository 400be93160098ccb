pub mod Running
pub mod LineRows
pub mod ThreadRows
pub mod ClaimRows
pub mod BesideRows
