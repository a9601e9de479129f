pub mod Places
pub mod LeafWalk
pub mod WrittenAtoms
pub mod Parts
pub mod ExplanationAtoms
pub mod StoredReasons
