pub mod Balance
pub mod Answered
pub mod Adding
pub mod Dividing
pub mod Totalling
pub mod Filled
pub mod Examples
