pub mod Bytes
pub mod Commands
pub mod Widths
pub mod Cases
