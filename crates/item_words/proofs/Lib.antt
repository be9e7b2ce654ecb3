pub mod Commas
pub mod Forced
pub mod Headers
pub mod Marks
pub mod Places
pub mod Plans
