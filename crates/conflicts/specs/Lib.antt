-- The answer as a function of the input, and the contract.
pub mod Answers
pub mod Numbers
pub mod Suffixes
pub mod Spans
pub mod ConflictOf
pub mod Conflicts
pub mod Examples
-- What the code holds: no contract of an open call names these.
pub mod HeldTasks
