pub mod CoveredTime
pub mod LocalBest
pub mod TriedStretches
pub mod StretchRefused
pub mod Answers
