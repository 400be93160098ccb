mod Outcomes
mod Pouring
mod Closing
