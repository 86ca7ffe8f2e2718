-- The laws of this crate, file by file. Assumes nothing.
pub mod TurnLaws
pub mod SkipLaws
pub mod PassLaws
pub mod TellLaws
pub mod EndLaws
pub mod StepLaws
pub mod NameLaws
pub mod LabelTests
pub mod OneAnswer
pub mod InsideLaws
