-- In the order in which to read them.
pub mod Contents
pub mod Faults
pub mod Around
pub mod Accepted
pub mod Kept
pub mod Steps
-- What a buyer need not read.
pub mod Inner
