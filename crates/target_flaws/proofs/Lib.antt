mod Ways
mod Checked
mod Asking
mod Judging
