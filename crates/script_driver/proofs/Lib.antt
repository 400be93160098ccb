mod Telling
mod Runnable
mod Sequence
mod Accepted
mod Tallied
mod Alike
