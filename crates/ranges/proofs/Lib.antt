pub mod BarTests
pub mod MovedStarts
pub mod AlikeRanges
pub mod StoredStarts
pub mod BarsFrom
pub mod TakenApart
