pub mod FirstScheme
pub mod Compared
