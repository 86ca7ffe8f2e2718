-- How the table's first sixteen numbers show progress. Assumes nothing.
pub mod Header
