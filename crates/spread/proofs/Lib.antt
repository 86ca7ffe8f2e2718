-- The laws of charge and radical rows, file by file. Assumes nothing.
pub mod PlaceLaws
pub mod MemberLaws
pub mod SpreadLaws
pub mod SpreadRowLaws
pub mod SpreadLineLaws
