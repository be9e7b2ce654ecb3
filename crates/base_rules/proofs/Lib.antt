pub mod Steps
pub mod Writes
pub mod Grids
pub mod Zipped
pub mod Weighs
pub mod Meant
