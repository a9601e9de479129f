pub mod Tariff
pub mod Numbers
pub mod Charges
pub mod ChargeLoop
pub mod Examples
