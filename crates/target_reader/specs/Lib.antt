pub mod TargetGrammar
pub mod OpsShown
pub mod Laws
