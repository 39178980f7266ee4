-- Laws of the reports, their texts first.
pub mod Texts
pub mod FaultWalk
pub mod OrderPut
pub mod OpeTexts
pub mod OpeAnswers
pub mod FaultyListed
pub mod ReportsRead
pub mod Examples
