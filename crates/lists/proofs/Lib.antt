-- The laws, file by file. Assumes nothing.
pub mod Bools
pub mod ListLaws
pub mod PairLaws
pub mod PartLaws
pub mod SortLaws
pub mod IndexLaws
pub mod LexLaws
pub mod FoldLaws
pub mod RegionLaws
pub mod LibraryLaws
