pub mod Stores
pub mod Equal
pub mod ReadBack
