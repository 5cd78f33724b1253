pub mod Puts
pub mod Own
