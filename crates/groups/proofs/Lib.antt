-- The laws that the functions cite, file by file. Assumes nothing.
pub mod PointerLaws
pub mod BondLaws
pub mod GroupLaws
pub mod MarkLaws
