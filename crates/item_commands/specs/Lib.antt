pub mod Printed
pub mod Rules
pub mod Texts
