-- What the answers of this crate's functions say, in the terms of format/specs, file by file. Assumes nothing.
pub mod Raised
pub mod Parts
pub mod Answers
