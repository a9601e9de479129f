pub mod Lists
pub mod Numbers
pub mod Changes
pub mod Histories
pub mod Examples
