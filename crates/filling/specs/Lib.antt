-- How the scratch's numbers stand in the regions of the table. Assumes nothing.
pub mod Filled
