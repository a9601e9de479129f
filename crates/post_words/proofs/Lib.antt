pub mod PostReader
pub mod StoredAtoms
pub mod TriedWords
