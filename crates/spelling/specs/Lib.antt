-- What this crate's functions print, in the terms of format/specs. Assumes nothing.
pub mod Spelling
pub mod Words
