-- The laws of a list's line, file by file. Assumes nothing.
pub mod StepLaws
pub mod KindLaws
pub mod LaidLaws
pub mod TurnLaws
pub mod ListLineLaws
pub mod RunLaws
