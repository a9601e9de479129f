-- What a tree is, and what its root and its searches answer: the definitions that the run's contract stands on.
pub mod Ects
pub mod Nodes
pub mod Shapes
pub mod Descents
pub mod Searches
pub mod Leaves
pub mod SearchExamples
-- What the code's arrays and loops hold: no contract of an open call names these.
pub mod NodeBounds
pub mod NodeLaws
pub mod SearchSteps
pub mod Arrays
pub mod Words
pub mod Bounds
pub mod Puts
pub mod ArraySearches
pub mod Trees
pub mod Operations
pub mod PlainOperations
