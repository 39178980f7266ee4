-- What only proofs cite, and contracts of functions below the sheet: a buyer need not read it.
pub mod Parts
pub mod Filling
