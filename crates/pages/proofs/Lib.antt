pub mod RightAligned
pub mod PageRefused
pub mod PageLines
