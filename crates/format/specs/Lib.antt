-- THE DEFINITIONS, in the order in which they are read: whoever believes these files knows what every promise of the project says. Assumes nothing.
pub mod Bytes
pub mod Labels
pub mod Rows
pub mod Formula
pub mod Grammar
pub mod Coordinates
pub mod Structure
pub mod Reading
pub mod Table
pub mod Writing
pub mod Walking
pub mod Refusals
