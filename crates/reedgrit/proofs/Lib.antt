pub mod PostNumbers
pub mod StateTests
pub mod OverloadWords
