pub mod Balances
pub mod Refusals
