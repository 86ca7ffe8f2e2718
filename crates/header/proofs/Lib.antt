-- The laws of the table's first sixteen numbers, file by file. Assumes nothing.
pub mod GuardLaws
pub mod HeaderLaws
