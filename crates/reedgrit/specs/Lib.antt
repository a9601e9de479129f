pub mod Posts
pub mod Checks
pub mod States
pub mod StateExamples
pub mod SourceCalls
pub mod AddedCalls
