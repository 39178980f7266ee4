-- What only proofs cite, and contracts of functions below the calls: a buyer need not read it.
pub mod Dated
pub mod Walk
pub mod Ending
