pub mod GivenRanges
pub mod Examples
