mod Following
mod Looking
mod Moving
mod Parting
mod Starting
mod Stepping
