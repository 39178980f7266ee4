pub mod ReadLaws
pub mod RowClasses
pub mod Standing
pub mod Tallying
pub mod JudgedIsSound
pub mod HeadByHead
pub mod WalkIsSound
