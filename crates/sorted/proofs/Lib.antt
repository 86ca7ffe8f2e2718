-- The laws of the sorted lists, file by file. Assumes nothing.
pub mod ShapeLaws
pub mod FitLaws
pub mod KeyLaws
pub mod SearchLaws
pub mod GapLaws
pub mod RegionRows
pub mod JoinLaws
pub mod KeyedLaws
pub mod HandedLaws
pub mod GeometryLaws
