-- The laws of this crate's functions, file by file. Assumes nothing.
pub mod PartLaws
pub mod ShapeLaws
pub mod XyzLaws
