pub mod Lanes
pub mod Watched
