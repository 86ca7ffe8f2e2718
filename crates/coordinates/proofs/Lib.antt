-- The laws of this crate's functions, file by file. Assumes nothing.
pub mod PlaceLaws
pub mod ClearLaws
pub mod TableLaws
pub mod KeptLaws
pub mod FillLaws
pub mod OneAnswer
