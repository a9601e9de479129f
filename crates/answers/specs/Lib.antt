pub mod SourceAnswers
pub mod Examples
pub mod AddedAnswers
