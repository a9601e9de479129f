-- The run and the mirrored pass as functions, and what they must be.
pub mod Traces
pub mod Words
pub mod Outcomes
pub mod EndNumbers
pub mod Runs
pub mod Costliest
pub mod Demand
pub mod ReasonSets
pub mod Mirrored
pub mod Instances
-- What the code's loops hold: no contract of an open call names these.
pub mod Reached
pub mod MirroredWords
