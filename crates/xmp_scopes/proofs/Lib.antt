mod Entries
mod Places
mod Undo
mod Undeclared
mod Agreement
