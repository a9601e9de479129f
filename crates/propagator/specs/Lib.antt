pub mod RunArrays
pub mod Candidates
pub mod EdgeFinding
pub mod LeavingTheta
pub mod FilledTheta
pub mod Ran
