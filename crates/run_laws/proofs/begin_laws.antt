pub mod SignsBegun
pub mod EventsBegun
pub mod StepsBegun
pub mod RunsBegun
pub mod ScriptsBegun
mod Worked
