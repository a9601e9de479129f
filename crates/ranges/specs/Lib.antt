pub mod Bars
pub mod Moves
pub mod Ranges
pub mod Permitted
pub mod Examples
pub mod TakenApart
pub mod TakenApartExamples
