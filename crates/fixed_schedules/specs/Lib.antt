pub mod FixedSchedules
pub mod Neighbours
pub mod Parameters
pub mod Examples
