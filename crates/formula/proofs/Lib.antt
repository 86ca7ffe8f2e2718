-- The laws of this crate's functions, file by file. Assumes nothing.
pub mod StepLaws
pub mod MoveLaws
pub mod RunLaws
pub mod EntryLaws
