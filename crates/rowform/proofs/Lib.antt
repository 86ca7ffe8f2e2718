-- The laws of this crate, file by file. Assumes nothing.
pub mod LineLaws
pub mod PlaceLaws
pub mod RowLaws
