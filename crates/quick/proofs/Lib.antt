-- The laws of this crate's functions, file by file. Assumes nothing.
pub mod PieceLaws
pub mod SignedLaws
pub mod LineLaws
pub mod RowLaws
pub mod StepLaws
