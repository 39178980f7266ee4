-- Laws of what is written.
pub mod Spelling
pub mod ReadDigits
pub mod Putting
pub mod ReadingBack
pub mod WellFormed
pub mod Plain
pub mod FullLines
pub mod Answers
pub mod MoneySpelled
pub mod Examples
pub mod Pieces
