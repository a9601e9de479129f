pub mod Asked
pub mod Tasks
pub mod Written
pub mod Examples
