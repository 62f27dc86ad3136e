mod Cells
mod Enumerated
mod Limits
mod Places
