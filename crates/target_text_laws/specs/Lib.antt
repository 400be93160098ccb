pub mod TargetStandsFor
