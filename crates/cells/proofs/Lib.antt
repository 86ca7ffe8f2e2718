-- The laws of this crate, file by file. Assumes nothing.
pub mod SignLaws
pub mod FirstLaws
