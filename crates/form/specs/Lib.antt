-- What this crate's functions print, in the terms of format/specs, file by file. Assumes nothing.
pub mod Listing
pub mod Entries
pub mod Forms
