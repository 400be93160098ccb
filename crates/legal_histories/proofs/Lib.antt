mod Ordering
mod Stepping
mod Logging
mod Legal
