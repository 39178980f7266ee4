-- What only proofs cite, and contracts of functions below the calls: a buyer need not read it.
pub mod Tally
pub mod Parts
