-- The laws of this crate's functions, file by file. Assumes nothing.
pub mod NumberedLaws
pub mod InTurnLaws
pub mod NumberedLoop
pub mod SplitLaws
pub mod KeyLaws
pub mod KeyedLaws
pub mod RecordLaws
pub mod AtomLaws
pub mod ListLaws
pub mod HeaderLaws
pub mod HandedLaws
pub mod LaidLaws
pub mod RegionsLaws
pub mod TestLaws
pub mod ZeroLaws
pub mod FirstLaws
pub mod RegionTests
