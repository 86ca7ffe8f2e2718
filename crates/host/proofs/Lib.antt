-- The laws of this crate, file by file. Assumes nothing.
pub mod PackLaws
pub mod OneAnswer
