-- The laws of the numbering, file by file. Assumes nothing.
pub mod AppearLaws
pub mod NumberingLaws
pub mod RenumberLaws
pub mod OrderingLaws
pub mod SortedValueLaws
pub mod NumberedLaws
