-- What only proofs cite, and contracts of functions below those that others call: a buyer need not read it.
pub mod Utf8Steps
