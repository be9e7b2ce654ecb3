pub mod Ledger
pub mod Meanings
pub mod Mistakes
pub mod Printed
pub mod Statements
pub mod Texts
