-- How the scratch shows the lists, and a line of a sorted list its step, file by file. Assumes nothing.
pub mod Steps
pub mod Regions
pub mod Shown
pub mod Keyed
pub mod GeometryRegion
