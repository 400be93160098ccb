pub mod Stale
