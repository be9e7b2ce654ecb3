pub mod Commas
pub mod Lists
pub mod Texts
pub mod InTurn
