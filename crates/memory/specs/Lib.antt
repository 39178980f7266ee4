-- In the order in which to read them.
pub mod Number
pub mod Layout
pub mod States
pub mod Rows
pub mod Heads
pub mod Read
-- What a buyer need not read.
pub mod Inner
