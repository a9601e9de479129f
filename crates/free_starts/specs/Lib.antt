pub mod Numbers
pub mod FreeStarts
pub mod StartMoments
pub mod Examples
