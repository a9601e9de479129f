pub mod Scheduling
pub mod Moments
pub mod Ects
pub mod Words
pub mod MirroredTime
pub mod Examples
