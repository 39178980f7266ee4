-- What a buyer need not read.
pub mod Entries
pub mod Places
