pub mod Listed
pub mod StoredAndLoaded
pub mod SheetAsAnswered
pub mod Journal
pub mod Refusal
pub mod Replay
pub mod Inner
