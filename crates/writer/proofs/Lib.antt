-- The laws of this crate, file by file. Assumes nothing.
pub mod SoundLaws
pub mod AnswerLaws
pub mod OneAnswer
