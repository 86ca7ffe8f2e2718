-- The laws of the regions that are filled, file by file. Assumes nothing.
pub mod FillLaws
pub mod AtomLaws
pub mod RecordLaws
pub mod AtomPartLaws
