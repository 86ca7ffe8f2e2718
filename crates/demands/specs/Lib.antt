-- The cases of document 01 and what its demands speak of, file by file. Assumes nothing.
pub mod Cases
pub mod Starred
pub mod Neighbours
pub mod Placings
pub mod Handings
pub mod Examples
pub mod Stretches
pub mod WayBack
pub mod Accepted
pub mod Positions
pub mod Handed
pub mod Groups
pub mod ReadAs
pub mod ReadWritten
pub mod Places
pub mod Demands
