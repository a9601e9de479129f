pub mod Numbers
pub mod Words
pub mod Scanner
pub mod Examples
pub mod DecimalText
pub mod DecimalExamples
