mod Counted
mod Consumed
