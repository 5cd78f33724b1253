pub mod Codes
pub mod Joined
pub mod ReadBack
pub mod Widths
pub mod Words
pub mod Pins
