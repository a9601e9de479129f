pub mod PlacedLists
pub mod LeftOut
pub mod Sums
pub mod RefusedChanges
pub mod ChangedRecords
pub mod Creation
pub mod History
