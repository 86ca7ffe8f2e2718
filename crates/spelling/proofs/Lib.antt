-- The laws of this crate, file by file. Assumes nothing.
pub mod LetterTable
pub mod SpellLaws
