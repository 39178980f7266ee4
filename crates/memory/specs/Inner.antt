-- What only proofs cite, and contracts of functions below the calls: a buyer need not read it.
pub mod Stored
pub mod Enter
pub mod Table
pub mod Classes
pub mod Returns
pub mod Holdings
pub mod Worth
