mod Finding
mod Decides
mod Breaking
