-- What only proofs cite, and contracts of functions below the calls: a buyer need not read it.
pub mod Charges
pub mod Standing
pub mod Tally
pub mod Walk
