-- In the order in which to read them.
pub mod Refusal
pub mod Sheet
pub mod Zs1
pub mod Rated
-- What a buyer need not read.
pub mod Inner
