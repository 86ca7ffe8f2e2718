-- The laws that the code of this crate rests on, file by file. Assumes nothing.
pub mod RankLaws
pub mod KeyLaws
pub mod ShowLaws
pub mod AtomLaws
pub mod SumLaws
pub mod FormulaLaws
pub mod SearchLaws
pub mod GapLaws
pub mod AddLaws
pub mod GroupLaws
pub mod GatherLaws
