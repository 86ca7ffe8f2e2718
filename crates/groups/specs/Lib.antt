-- What the pointers and labels of a table's atoms say, file by file. Assumes nothing.
pub mod Pointers
pub mod Grouping
pub mod Marks
