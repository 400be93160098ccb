mod Beginning
pub mod Accepting
