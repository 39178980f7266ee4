pub mod Calendar
pub mod Reading
pub mod Time
