pub mod Shown
pub mod Length
