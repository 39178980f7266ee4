-- In the order in which to read them.
pub mod Refusal
pub mod Acceptance
pub mod Does
pub mod Reply
pub mod Numbers
pub mod NoReturn
-- What a buyer need not read.
pub mod Inner
