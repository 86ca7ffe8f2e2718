-- The laws of this crate, file by file. Assumes nothing.
pub mod PrintLaws
pub mod NumberLaws
pub mod CopyLaws
