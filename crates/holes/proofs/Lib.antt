pub mod BoundSteps
pub mod Ascending
pub mod PaddedArrays
