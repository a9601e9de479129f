pub mod FourLeaves
pub mod Walks
pub mod Leaves
pub mod WrittenAtoms
pub mod Explained
pub mod Explanations
