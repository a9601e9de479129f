pub mod LentRuns
pub mod ReadRanges
