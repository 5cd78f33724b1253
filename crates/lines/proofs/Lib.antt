pub mod Laying
pub mod Decimals
pub mod BeatLines
pub mod Reports
pub mod Fits
pub mod ReadBack
