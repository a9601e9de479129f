pub mod RunLines
pub mod InputCount
pub mod Reports
pub mod PrintedRun
pub mod InputTasks
pub mod PrintedSlices
pub mod FirstBytes
mod Marks
