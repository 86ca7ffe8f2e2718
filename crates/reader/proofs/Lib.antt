-- The laws of the reader, file by file. Assumes nothing.
pub mod ToldLaws
pub mod LentLaws
pub mod AnsweredLaws
pub mod PlacedLaws
pub mod OneAnswer
