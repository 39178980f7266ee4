-- In the order in which to read them.
pub mod Spelled
pub mod Money
pub mod Files
pub mod TooShort
pub mod Written
pub mod Writer
