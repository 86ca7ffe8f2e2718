-- What is left of the atoms while the formula is taken from them, file by file. Assumes nothing.
pub mod Left
pub mod Taking
