pub mod ReadTasks
pub mod Answers
pub mod Fewest
pub mod FirstOverload
pub mod NextTask
pub mod TooManyRanges
pub mod OverloadNumbers
