pub mod Following
mod Each
