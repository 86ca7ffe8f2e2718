-- What the answers of `read` say. Assumes nothing.
pub mod Answers
