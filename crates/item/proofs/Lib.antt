pub mod Leasts
pub mod Tells
