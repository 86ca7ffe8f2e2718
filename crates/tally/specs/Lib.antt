-- The formula's entries as numbers, file by file. Assumes nothing.
pub mod Ranks
pub mod Gathering
