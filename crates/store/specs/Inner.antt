-- How code walks stored bytes.
pub mod Walk
pub mod Raw
pub mod Unpack
