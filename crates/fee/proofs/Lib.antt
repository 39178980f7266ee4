-- The division of a fee, what an order is charged, which amount makes a total, and worked examples.
pub mod Division
pub mod Charged
pub mod Totals
pub mod Examples
