-- Laws of the calendar, and the theorems that its definitions state.
pub mod Parts
pub mod Computed
pub mod Sums
pub mod Days
pub mod Examples
