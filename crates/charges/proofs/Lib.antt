pub mod Costs
pub mod ChargesRefused
pub mod AcceptedCharges
