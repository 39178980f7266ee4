pub mod Refusal
pub mod Answers
-- What a buyer need not read.
pub mod Inner
