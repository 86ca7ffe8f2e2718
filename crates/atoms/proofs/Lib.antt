-- The laws of lines of ATOMLIST. Assumes nothing.
pub mod AtomLineLaws
