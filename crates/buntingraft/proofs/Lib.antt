pub mod Exporting
pub mod Telling
pub mod BitLaws
