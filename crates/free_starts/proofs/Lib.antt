pub mod FirstFree
pub mod FreeStartRefused
pub mod Answers
