pub mod Records
pub mod Examples
pub mod Refusals
pub mod RefusalExamples
