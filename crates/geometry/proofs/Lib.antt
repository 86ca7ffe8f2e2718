-- The laws of this crate's functions, file by file. Assumes nothing.
pub mod CellLaws
pub mod LineLaws
pub mod StoreLaws
pub mod RunLaws
