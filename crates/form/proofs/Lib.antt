-- The laws of this crate, file by file. Assumes nothing.
pub mod ListingLaws
pub mod RecordLaws
pub mod EntryLaws
pub mod FragmentLaws
pub mod FormLaws
