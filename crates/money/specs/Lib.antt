pub mod Money
pub mod Text
