pub mod Readings
pub mod Mistakes
pub mod Turns
pub mod Parsed
