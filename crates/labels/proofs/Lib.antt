-- The laws of this crate's functions, file by file. Assumes nothing.
pub mod KeyLaws
pub mod LabelLaws
