-- The list functions that the definitions and laws of this project share, file by file. Assumes nothing.
pub mod Lists
pub mod Order
pub mod Folding
