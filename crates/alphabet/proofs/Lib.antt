-- The laws of this crate's functions, file by file. Assumes nothing.
pub mod KindLaws
pub mod RunLaws
pub mod DigitLaws
