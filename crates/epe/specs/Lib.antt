-- In the order in which to read them.
pub mod Refusal
pub mod Questions
pub mod Numbered
pub mod Ident
pub mod Name
pub mod Profile
pub mod File
pub mod Opening
pub mod Lengths
-- What a buyer need not read.
pub mod Inner
