pub mod Fee
pub mod Total
pub mod Refusal
pub mod Inner
