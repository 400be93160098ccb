-- Local code, where method runs begin and end, and the restarts of the source.
pub mod Along
pub mod Local
pub mod Accessing
pub mod Quieting
pub mod Beginning
pub mod Replying
pub mod Committing
pub mod Stopping
pub mod Restarting
