-- The laws of the table that is filled. Assumes nothing.
pub mod PublishLaws
