pub mod Recurrence
pub mod RecordArrays
pub mod RunningValues
