pub mod Widths
pub mod ChosenTasks
pub mod LineOfEach
pub mod WrittenPages
pub mod RightNumbers
pub mod RefusedPages
pub mod PagedConflicts
