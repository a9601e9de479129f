-- The test as a function, and its contract.
pub mod ReadTasks
pub mod Numbers
pub mod Tested
pub mod Examples
-- What the code's arrays hold: no contract of an open call names these.
pub mod ReadArrays
