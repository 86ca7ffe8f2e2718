-- The laws of this crate's functions, file by file. Assumes nothing.
pub mod PlaceLaws
pub mod TableRule
pub mod PlaceTable
pub mod ElementLaws
pub mod IsotopeLaws
