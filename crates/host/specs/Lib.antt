-- What the numbers of this crate's functions say. Assumes nothing.
pub mod Packed
