pub mod Limits
pub mod Postings
pub mod Range
pub mod Rounding
