pub mod Numbers
pub mod Stretches
pub mod StretchMoments
pub mod Examples
