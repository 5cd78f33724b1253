pub mod Each
pub mod Ladder
