mod Groups
mod NodeLines
mod Wholes
