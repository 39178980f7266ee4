-- Laws of an amount's text, and worked examples.
pub mod Reading
pub mod Examples
pub mod Sums
