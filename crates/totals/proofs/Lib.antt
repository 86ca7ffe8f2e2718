-- The laws of the tally and of what is taken from it, file by file. Assumes nothing.
pub mod LeftLaws
pub mod StrikeLaws
pub mod TallyLaws
pub mod AnswerLaws
