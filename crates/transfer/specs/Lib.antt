-- What the answers of this crate's functions say, in the terms of format/specs, file by file. Assumes nothing.
pub mod Ending
pub mod Shown
pub mod Skipping
pub mod Texts
