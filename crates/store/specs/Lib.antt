-- In the order in which to read them.
pub mod Refusal
pub mod Stored
pub mod Unstored
-- What a buyer need not read.
pub mod Inner
