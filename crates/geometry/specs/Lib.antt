-- What the answers of this crate's functions say, in the terms of format/specs, file by file. Assumes nothing.
pub mod Cells
pub mod LineNoted
pub mod SizesTold
pub mod LatestStored
pub mod XyzRuns
