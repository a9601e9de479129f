pub mod SourceAnswers
pub mod AddedAnswers
