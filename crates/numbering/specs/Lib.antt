-- How charge and radical rows are numbered anew, file by file. Assumes nothing.
pub mod Numbering
pub mod Renumbers
