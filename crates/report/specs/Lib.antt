-- In the order in which to read them.
pub mod Refusal
pub mod Lines
pub mod Rkf
pub mod Ope
pub mod Read
-- What a buyer need not read.
pub mod Inner
