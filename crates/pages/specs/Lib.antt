pub mod Lines
pub mod Numbers
pub mod Pages
pub mod Examples
