-- The laws of a judgement, file by file. Assumes nothing.
pub mod SeenLaws
pub mod CodeLaws
pub mod ValueLaws
pub mod LineTurnLaws
pub mod TextTurnLaws
pub mod YesTurnLaws
pub mod EndTurnLaws
pub mod StepTurnLaws
pub mod LabelTurnLaws
pub mod XyzTurnLaws
pub mod BlockLaws
