-- What a charge or radical row says, and how its members take its number. Assumes nothing.
pub mod Members
