pub mod Holes
