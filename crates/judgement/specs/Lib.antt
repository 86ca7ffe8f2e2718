-- What the functions of a line and of a block promise, file by file. Assumes nothing.
pub mod Lines
pub mod Values
pub mod Placing
pub mod Judging
