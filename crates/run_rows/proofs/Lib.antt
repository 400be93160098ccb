pub mod Images
pub mod Shadows
pub mod Tops
pub mod Names
mod ScriptRuns
pub mod Drawn
