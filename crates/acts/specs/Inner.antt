-- What only proofs cite, and contracts of functions below the calls: a buyer need not read it.
pub mod Place
pub mod Handled
pub mod Waits
pub mod Waiting
