pub mod ScheduleOrder
pub mod Neighbours
pub mod AcceptedSchedules
pub mod FixedRefused
pub mod ParameterMoments
