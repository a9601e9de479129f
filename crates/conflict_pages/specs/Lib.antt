-- The page, and its contract.
pub mod Lines
pub mod TaskLines
pub mod Sentences
pub mod Numbers
pub mod Pages
pub mod Examples
-- What the code takes for given: no contract of an open call names these.
pub mod Sayable
