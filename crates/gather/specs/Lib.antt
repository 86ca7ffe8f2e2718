-- How scratch and progress show the state of the definitions, and a line of a list its turn, file by file. Assumes nothing.
pub mod Progress
pub mod Shows
pub mod ListLine
pub mod Runs
