-- How the table shows what scratch and progress hold, file by file. Assumes nothing.
pub mod Published
