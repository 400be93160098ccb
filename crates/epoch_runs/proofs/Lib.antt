pub mod StepsBegun
pub mod ScriptsBegun
pub mod Following
