pub mod Kinds
pub mod Posts
pub mod Examples
pub mod StoredAtoms
