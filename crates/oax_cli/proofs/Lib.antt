mod Sources
mod Told
mod Improper
