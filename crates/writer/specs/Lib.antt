-- What the writer's answers say, in the terms of format/specs, file by file. Assumes nothing.
pub mod Answers
